pub mod Memory
pub mod Buffered
