-- the text of a job in an output
pub mod Writer
pub mod Output
