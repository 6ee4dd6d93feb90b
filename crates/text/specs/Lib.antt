-- which line may stand, and the whole text
pub mod Reader
-- the record after it
pub mod Into
-- that reading and writing undo each other
pub mod RoundTrip
