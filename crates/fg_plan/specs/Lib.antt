-- The definitions that the contracts of this crate cite.
pub mod Choice
pub mod Laws
pub mod Text
