pub mod Bringing
mod Flushed
mod Later
mod OneCall
mod OneTurn
pub mod OwnDesk
mod Windows
