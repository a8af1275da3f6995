-- Lemmas on the definitions of this crate.
mod Piped
