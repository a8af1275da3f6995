pub mod Kind
pub mod Laws
pub mod Layout
pub mod Limits
pub mod Losses
pub mod Playout
pub mod Settings
pub mod Shape
