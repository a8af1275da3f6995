-- The definitions that the contracts of this crate cite.
pub mod Fits
pub mod Gaps
pub mod Laws
pub mod Shelf
pub mod Text
