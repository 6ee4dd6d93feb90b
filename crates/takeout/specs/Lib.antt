-- One wire less on a link, and on all links of a wire.
pub mod Lessened
pub mod Taken
-- The record of the wires that stay, and the wires that go all taken out.
pub mod LeftRecord
pub mod AllTaken
-- The pin of a wire, and the pins whose wires go, marked.
pub mod Back
pub mod Marks
-- In the words of request K5, and the record after an edit.
pub mod Entries
pub mod Lanes
pub mod Edited
pub mod Stored
-- The same for request K9.
pub mod Missing
