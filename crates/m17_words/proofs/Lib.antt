pub mod Simple
pub mod Named
pub mod Parrots
pub mod OneCommand
pub mod Unnamed
