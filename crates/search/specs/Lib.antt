-- Taking loops out.
pub mod Unlooped
pub mod Loose
pub mod Rings
-- Wires laid until no more fits.
pub mod Fill
pub mod Filling
-- The record as a whole.
pub mod Copies
pub mod Outcome
pub mod Added
pub mod Stepping
pub mod Routing
pub mod Ends
