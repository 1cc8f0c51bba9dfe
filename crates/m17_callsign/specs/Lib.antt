pub mod Callsign
pub mod AddressBytes
pub mod Letters
pub mod Laws
