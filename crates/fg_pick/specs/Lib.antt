-- The definitions that the contracts of this crate cite.
pub mod Laws
pub mod Pick
pub mod Picked
pub mod Ports
pub mod Steps
