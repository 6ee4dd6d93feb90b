-- the rule of the table
pub mod TableExact
-- `all` over the numbers below a bound
pub mod Below
