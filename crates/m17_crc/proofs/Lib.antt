pub mod Division
pub mod Linear
pub mod Entries
pub mod Strides
