-- Lemmas on the definitions of this crate.
pub mod CasesOne
pub mod CasesProved
pub mod CasesTrue
pub mod Cutting
pub mod JudgingHoles
pub mod JudgingRuns
pub mod WritableCases
