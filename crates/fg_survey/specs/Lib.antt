-- The definitions that the contracts of this crate cite.
pub mod Heard
pub mod Lanes
pub mod Laws
pub mod Matrix
pub mod Reading
pub mod Rows
pub mod Senders
pub mod Steps
pub mod Survey
pub mod Tallies
pub mod Text
pub mod Totals
