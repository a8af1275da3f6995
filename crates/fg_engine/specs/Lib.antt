-- The definitions that the contracts of this crate cite.
pub mod Driver
pub mod Engine
pub mod Shelved
pub mod Steps
pub mod View
