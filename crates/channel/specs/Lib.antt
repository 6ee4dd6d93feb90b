-- the map
pub mod Map
-- where the count of a side stands, and a tile's own D
pub mod Laid
pub mod Own
-- what the writers store, and its laws
pub mod Written
-- the first bytes of a buffer, which a record is read from
pub mod Copies
