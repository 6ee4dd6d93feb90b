-- Networks, loads and flows.
pub mod Network
pub mod Balance
pub mod Flow
-- What bounds a flow, and when the bound is met.
pub mod Cut
pub mod Residual
pub mod MinCut
pub mod Walk
-- How a flow is changed.
pub mod Push
pub mod Kept
pub mod Store
pub mod Cancel
pub mod Less
-- Networks by slots, and an example.
pub mod Slots
pub mod Example
