-- the word of an answer
pub mod Words
-- the numbers of places
pub mod Numbers
-- how far a text is read, and how large the numbers of a part are
pub mod TextBound
pub mod PartBound
-- what can stand in a word is read back from it
pub mod Decoded
-- every answer of an operation fits a word
pub mod Small
-- the five numbers that design rules give
pub mod Stored
-- the word of a result is that of the answer
pub mod Results
