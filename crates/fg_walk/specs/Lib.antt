-- The definitions that the contracts of this crate cite.
pub mod Steps
pub mod Walk
