-- The definitions that the contracts of this crate cite.
pub mod Continuity
pub mod Kept
pub mod Laws
pub mod Monitored
pub mod Steps
pub mod Text
