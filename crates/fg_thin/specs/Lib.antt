-- The definitions that the contracts of this crate cite.
pub mod Drawn
pub mod Few
pub mod Made
pub mod PayloadLaws
pub mod Payloads
pub mod Sending
pub mod Taking
pub mod Thinned
pub mod ThinnedSource
pub mod TraceLaws
