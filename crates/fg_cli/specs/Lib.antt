pub mod Grammar
pub mod Help
pub mod Laws
pub mod Lines
pub mod Orders
pub mod Reading
