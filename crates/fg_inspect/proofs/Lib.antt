-- Lemmas on the definitions of this crate.
mod Readings
mod Telling
mod Texts
