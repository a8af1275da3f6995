pub mod Crewing
pub mod Crossing
pub mod Slots
