-- what Part answers
pub mod Parts
-- what Step and Shortfall answer
pub mod Wiring
