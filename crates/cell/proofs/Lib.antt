-- the laws of the test of a cell's links
pub mod LinksFit
