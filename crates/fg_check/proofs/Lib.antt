-- Lemmas on the definitions of this crate.
mod Accepted
mod Cuts
mod Endings
mod Grammar
mod Numbers
mod Spelling
mod Splits
mod Telling
mod Walking
mod Walks
mod Wholes
