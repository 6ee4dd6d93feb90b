-- what stands at an offset of a text
pub mod Scan
-- the groups of lines
pub mod Groups
-- the line that begins there
pub mod Lines
