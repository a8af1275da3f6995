-- Lemmas on runs, which proofs of other crates cite too.
pub mod CutLemmas
pub mod RunLemmas
