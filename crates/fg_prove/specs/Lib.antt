-- The definitions that the contracts of this crate cite.
pub mod Laws
pub mod Proved
pub mod Steps
pub mod WritableProofs
