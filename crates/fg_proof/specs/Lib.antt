-- The definitions that the contracts of this crate cite.
pub mod Case
pub mod Judgement
pub mod Laws
pub mod Text
pub mod WritableCases
