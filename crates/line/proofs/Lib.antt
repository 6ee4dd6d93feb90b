-- what the text is from an offset on
pub mod Scanned
-- the line that begins there
pub mod Lined
-- the numbers of an array line that may stand
pub mod Ranges
