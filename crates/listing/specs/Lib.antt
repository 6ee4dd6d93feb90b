-- The letters of places, and the bytes of a short job's listing and of a refusal.
pub mod Letters
pub mod Near
pub mod Spots
-- Laying bytes on a page.
pub mod Spread
pub mod Puts
pub mod Writes
pub mod Tens
pub mod Counts
pub mod Walked
-- What is left where a page ends.
pub mod Left
pub mod Passed
pub mod ShortPages
pub mod Whole
-- The examples of document 01 and the four-pin listing of document 02.
pub mod Example
pub mod FourPins
