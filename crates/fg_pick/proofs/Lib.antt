-- Lemmas on the definitions of this crate.
mod Deciding
mod Marking
mod Picking
mod Sending
mod Walking
