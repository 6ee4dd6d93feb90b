-- the slots that lead to spots with no mark
pub mod Ahead
-- the slots along which the search may move
pub mod Slots
