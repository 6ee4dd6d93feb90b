-- Decisions that bounds make possible, and what darts of a network reach.
pub mod Decide
pub mod Closure
pub mod Rings
-- Whether a record is damaged.
pub mod Damage
-- The verdict of a text.
pub mod Verdicts
-- One wire more, or none more fits.
pub mod Untangled
pub mod NextWire
pub mod Added
pub mod Most
-- The least length, where every chosen pin is wired.
pub mod Tight
pub mod Complete
pub mod LeastRecord
