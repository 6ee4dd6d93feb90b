-- Deciding damage: what is decided, that the tests of all cells say exactly it, and the loops.
pub mod Feasible
pub mod Laws
pub mod Diagonals
pub mod Loops
pub mod Legal
