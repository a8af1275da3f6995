-- The definitions that the contracts of this crate cite.
pub mod Capture
pub mod Checksum
pub mod Frame
pub mod FromCapture
pub mod Laws
pub mod PacketHeader
pub mod ReadFor
pub mod Reading
pub mod Spelling
pub mod Steps
pub mod ToCapture
