-- The definitions that the contracts of this crate cite.
pub mod ComesBack
pub mod Covered
pub mod Drill
pub mod DrillLaws
pub mod DrillSteps
pub mod Repaired
pub mod Repairs
pub mod Sample
pub mod Sent
pub mod True
pub mod TrueLaws
