-- Lemmas on the definitions of this crate, which proofs of other crates cite too.
pub mod GapLemmas
mod ReportLemmas
mod SentLemmas
mod TextLemmas
