-- What is handed to standard output, and what has to be printed for a text.
pub mod Handed
pub mod Prints
