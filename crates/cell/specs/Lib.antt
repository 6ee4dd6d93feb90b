-- the tests of a cell
pub mod Cell
-- the test of the bytes that nothing uses
pub mod Unused
