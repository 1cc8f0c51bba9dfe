pub mod Lsd
pub mod Laws
