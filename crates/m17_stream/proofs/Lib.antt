pub mod Packets
pub mod Places
pub mod Reading
