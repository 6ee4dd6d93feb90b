-- The record along a run: it stays a buffer, legal, with the job that the calls give.
pub mod Buffers
pub mod OthersStay
pub mod AfterEdit
pub mod Invariant
pub mod Runs
-- Steps, and rows of them.
pub mod Says
pub mod Rows
-- The end of a row, Shortfall, and the whole.
pub mod Ending
pub mod Shortfall
pub mod Demand3
-- Runs that every service makes.
pub mod Blank
pub mod Edits
pub mod Settled
pub mod Example
pub mod WiredRun
