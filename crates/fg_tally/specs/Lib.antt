pub mod Codings
pub mod Counting
pub mod Folding
pub mod Tally
