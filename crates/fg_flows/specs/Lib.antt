pub mod Entries
pub mod Flows
pub mod Index
pub mod Laws
pub mod Plan
pub mod Selection
pub mod Sheaf
