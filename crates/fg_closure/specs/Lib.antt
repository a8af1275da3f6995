-- The definitions that the contracts of this crate cite.
pub mod Flags
pub mod Found
pub mod Holes
pub mod Watched
