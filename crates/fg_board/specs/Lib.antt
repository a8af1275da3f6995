pub mod Actors
pub mod Deeds
pub mod Knowing
pub mod Laws
pub mod OwnTurns
pub mod Standings
