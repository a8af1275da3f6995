-- Lemmas on captures, which proofs of other crates may cite.
pub mod Captures
pub mod Checksums
pub mod ComingBack
pub mod Datagrams
pub mod Frames
pub mod Fronts
pub mod Numbers
pub mod Packets
pub mod Reaching
pub mod ReadFor
pub mod RoundTrips
pub mod Sending
pub mod Standing
pub mod Stopping
pub mod Underway
pub mod Writing
