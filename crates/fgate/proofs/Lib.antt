-- Lemmas of this program.
mod WordLemmas
