-- The words of counting.
pub mod Counting
-- Their laws.
pub mod Tests
pub mod Sums
pub mod Totals
-- Lists by index, made entry by entry, and after a store.
pub mod Entries
pub mod Each
pub mod Stores
-- The lowest bit of a number.
pub mod Lowest
