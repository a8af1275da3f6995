mod BurstLemmas
mod Closing
mod Marking
mod Positioned
pub mod Positions
mod Ranking
mod Received
mod Summing
mod Timing
