-- The definitions that the contracts of this crate cite.
pub mod Accepted
pub mod Checked
pub mod Laws
pub mod Line
pub mod Reading
pub mod Split
pub mod Steps
pub mod Text
