-- The rounds, counted.
pub mod Pass
pub mod Rounds
pub mod Levels
-- What the rounds give.
pub mod Perfect
-- The sequence round a place, and the partner of a lane.
pub mod Slots
pub mod Lanes
pub mod Leaving
-- What the code answers, and its rounds on arrays.
pub mod Answer
pub mod Sequence
pub mod Struck
pub mod Onward
pub mod Example
