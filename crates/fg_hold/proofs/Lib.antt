pub mod Clocks
pub mod Held
pub mod Marks
pub mod Opened
pub mod Puts
pub mod Queue
