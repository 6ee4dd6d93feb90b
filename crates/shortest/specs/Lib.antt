-- The wires of a priced record are the shortest.
pub mod Shortest
-- Prices by the moves of the search.
pub mod MovesPriced
pub mod Slack
-- How a record with prices is changed, and how high they go.
pub mod PricedLaid
pub mod Ceiling
-- First prices.
pub mod Rings
pub mod FirstPrices
pub mod FirstRow
-- The search that raises prices as it goes.
pub mod Grow
pub mod Slacks
-- What the code of the least wiring keeps and leaves.
pub mod Wiring
pub mod Growing
pub mod Search
pub mod Growths
pub mod Rounds
pub mod Lines
pub mod Work
pub mod Emptied
pub mod LeastWiring
-- What the operations call.
pub mod Shortening
