mod Bits
pub mod Crossing
mod Filtering
mod Numbers
mod Passes
mod Summing
