pub mod HasWaited
pub mod Inside
pub mod Ring
pub mod Steps
pub mod Waiting
