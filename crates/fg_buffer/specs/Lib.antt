pub mod LiveEquations
pub mod LiveInside
pub mod PlayoutBuffer
pub mod BufferEntries
pub mod SmallSlots
pub mod Watches
