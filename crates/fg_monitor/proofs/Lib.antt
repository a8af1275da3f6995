-- Lemmas on the definitions of this crate.
mod Endings
mod Kept
mod Later
mod Telling
mod Texts
mod Walking
