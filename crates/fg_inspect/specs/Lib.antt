-- The definitions that the contracts of this crate cite.
pub mod Inspect
pub mod Laws
pub mod Reading
pub mod Steps
pub mod Text
