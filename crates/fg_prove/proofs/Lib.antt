-- Lemmas on the definitions of this crate.
mod Admitting
mod Missing
mod OfGaps
mod OneProof
mod Opening
mod Playing
mod Taking
mod Telling
mod Texts
mod Walking
mod WritableProofs
