-- what New and Read text answer
pub mod Anew
