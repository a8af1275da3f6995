-- What a survey of an encoding tells, of which records were left out.
pub mod Laws
pub mod Left
pub mod Told
