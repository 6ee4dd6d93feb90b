-- document 01's number and values for each answer
pub mod Answers
-- what a call on a damaged and on a legal record leaves
pub mod Outcomes
