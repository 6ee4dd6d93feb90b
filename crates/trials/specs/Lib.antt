-- an array of cells filled by draws
pub mod Filling
-- the answer by its tests, and the job
pub mod Tried
