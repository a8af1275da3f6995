pub mod FecHeader
pub mod Laws
pub mod ParityDatagram
