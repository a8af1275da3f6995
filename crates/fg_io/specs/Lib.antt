-- The definitions that the contracts of this crate cite.
pub mod Calls
pub mod Faults
pub mod InputBuffer
pub mod LaneName
pub mod Laws
pub mod MemOutlet
pub mod MemSink
pub mod MemSource
pub mod OpenFiles
pub mod Outlet
pub mod Prefix
pub mod Safe
pub mod Sent
pub mod Sink
pub mod Source
pub mod Texts
pub mod Standard
