-- Lemmas on the definitions of this crate.
pub mod Given
mod Records
