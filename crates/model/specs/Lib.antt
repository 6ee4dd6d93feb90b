-- Document 01 as definitions: what a reader has to believe.
pub mod Job
pub mod Links
pub mod Route
pub mod Near
pub mod Length
pub mod Loads
pub mod Pairing
pub mod Wires
pub mod Left
pub mod Record
pub mod Text
pub mod Listing
pub mod Trial
pub mod Sheet
pub mod Calls
pub mod Run
-- The rows of the examples.
pub mod Examples
