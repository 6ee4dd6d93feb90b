-- What loads and moves cost.
pub mod Cost
pub mod Moves
-- Prices, and why a priced flow is the cheapest.
pub mod Priced
-- How a priced flow is changed, and how its prices are.
pub mod Tight
pub mod Less
pub mod Ceiling
-- An example.
pub mod Example
