-- Laying moves, and a path of them as one wire more.
pub mod Laid
pub mod Wired
pub mod OneMore
-- Nothing more fits, and what cannot be reached stays so.
pub mod NoMore
pub mod Dead
-- The search from one pin.
pub mod Answers
pub mod Marks
pub mod Spread
pub mod Steps
pub mod Queue
pub mod Turns
pub mod Slots
pub mod Ways
-- The search over all pins.
pub mod Work
pub mod Pins
pub mod Shut
pub mod Passing
