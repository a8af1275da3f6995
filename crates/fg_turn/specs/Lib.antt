pub mod Entries
pub mod Rule
pub mod Plays
pub mod Laws
pub mod Standing
pub mod Inside
