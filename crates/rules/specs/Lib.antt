-- document 02, K1, as definitions
pub mod Rules
-- measures with the answer that they get
pub mod Examples
-- the ranges of measures, as inequalities
pub mod Ranges
-- a measure as an argument of the program
pub mod Arguments
