-- Steps: their turns, where they come to, and which stand around a place.
pub mod Ways
pub mod Around
-- What routes within the limits keep to besides: the diagonals and the length.
pub mod Diagonals
pub mod LengthBound
-- The wire from a hop: how it goes on, and that it ends outside.
pub mod Next
pub mod Trails
pub mod Follow
-- The wire of a pin: no two share a lane, and every loaded lane is on one.
pub mod Threads
pub mod Apart
pub mod Filled
-- How many hops there are, and how often a place is listed.
pub mod Counts
pub mod Places
-- Hops and parts as the code has them.
pub mod Hops
pub mod Five
pub mod Walks
pub mod Lengths
pub mod WireLength
-- The wires of all pins.
pub mod Bundle
pub mod Held
-- Their length, off the bytes.
pub mod LoadBytes
pub mod Total
-- Families of routes, and wires that are one.
pub mod Families
-- What holds of the wires of every legal record.
pub mod LegalWires
