pub mod Forms
pub mod Laws
pub mod Modules
pub mod Spelled
pub mod Renamed
