-- Positions of a sequence counted again after some are taken out, and the pairing of those that stay.
pub mod Ranks
pub mod Thinned
-- Lanes taken out round a place, and wires taken out of sound loads.
pub mod Round
pub mod Kept
-- The same by pins.
pub mod Pins
-- Jobs that differ only where no load stands, and what an edit keeps.
pub mod Alike
pub mod Edits
-- Request K5: its definitions, any places, a pin or a tile, and a side's count.
pub mod Staying
pub mod Edited
pub mod Highest
pub mod Laid
-- The record after an edit is legal.
pub mod Legality
