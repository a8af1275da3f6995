pub mod Laws
pub mod Position
