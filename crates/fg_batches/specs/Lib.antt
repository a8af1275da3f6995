-- The definitions that the contracts of this crate cite.
pub mod BatchView
pub mod Batches
pub mod Gathering
pub mod Stages
pub mod Walking
