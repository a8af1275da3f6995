pub mod DatagramCounts
pub mod PlainRuns
