pub mod Prefixes
pub mod Going
pub mod Tries
pub mod Appended
