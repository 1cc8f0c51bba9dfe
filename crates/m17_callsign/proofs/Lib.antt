pub mod Alphabet
pub mod Exact
pub mod Folded
pub mod Pushed
pub mod Spelled
pub mod Unique
