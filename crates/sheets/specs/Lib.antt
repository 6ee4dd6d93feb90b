-- What a tile carries inside it when O is 2, and the least D that carries given amounts.
pub mod Loading
pub mod Passage
pub mod Corners
pub mod Exact
pub mod Table
-- over the whole array
pub mod Glued
pub mod Bytes
pub mod Tiles
pub mod Tests
pub mod First
pub mod Answered
-- the other way round
pub mod Wired
