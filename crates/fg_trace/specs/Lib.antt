-- The definitions that the contracts of this crate cite.
pub mod Finish
pub mod Header
pub mod Laws
pub mod Reached
pub mod Reader
pub mod Reading
pub mod Trace
pub mod Walk
