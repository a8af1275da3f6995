-- The definitions that the contracts of this crate cite.
pub mod Contract
pub mod Counted
pub mod Existence
pub mod Flow
pub mod Gaps
pub mod Lanes
pub mod Laws
pub mod Picked
pub mod Repair
pub mod Stops
