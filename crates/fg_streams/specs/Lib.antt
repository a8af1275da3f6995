-- The definitions that the contracts of this crate cite.
pub mod Arrival
pub mod Bursts
pub mod Fates
pub mod Laws
pub mod Pace
pub mod Packets
pub mod Steps
pub mod Summary
