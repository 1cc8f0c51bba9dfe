pub mod Crc
pub mod Register
