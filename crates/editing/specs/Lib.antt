-- what Mark and Close answer and store
pub mod Edits
-- what setting a count does
pub mod Laying
-- what giving a tile its D does
pub mod Diagonals
-- what lowering E does
pub mod Lowering
-- the copy in which the wires are followed
pub mod Copied
