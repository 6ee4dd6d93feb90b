-- whether a line may stand, and the whole text
pub mod Standing
pub mod Midway
-- the job's bytes, line by line
pub mod Writing
-- that reading and writing undo each other
pub mod RoundTrip
