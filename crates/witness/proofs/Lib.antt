-- The service, and demand 3 of it.
pub mod Stepped
pub mod Steps
pub mod Shown
pub mod Lacked
pub mod Served
pub mod Demand
