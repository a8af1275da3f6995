-- Lemmas on the definitions of this crate.
pub mod Findings
pub mod InOrder
pub mod Misses
pub mod Readings
pub mod Running
pub mod Searches
pub mod Watching
