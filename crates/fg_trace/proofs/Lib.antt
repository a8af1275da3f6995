-- Lemmas on the trace, which proofs of other crates cite too.
pub mod Endings
pub mod Fields
pub mod Fronts
pub mod Longest
pub mod Next
pub mod Opening
pub mod Reached
pub mod Reaching
pub mod Records
pub mod Stopping
pub mod Traces
pub mod Viewing
pub mod Walking
pub mod Walks
