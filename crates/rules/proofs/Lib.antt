-- a quotient and its remainder
pub mod Quotient
-- the laws of the diagonal count
pub mod Across
-- four numbers have one answer at most
pub mod Unique
-- accepted capacities are in range
pub mod Fitting
-- the worked examples
pub mod Table
-- capping changes no answer
pub mod Capped
-- one digit more
pub mod Digits
