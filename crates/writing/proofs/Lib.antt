-- the parts of a job's text, counted and put one after the other
pub mod Counted
pub mod Placed
-- the values that its lines tell
pub mod Values
