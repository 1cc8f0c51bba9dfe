mod Lists
mod Views
mod Keeps
mod Folds
mod Joins
mod Places
pub mod Pushes
pub mod Pops
pub mod Grown
pub mod Grids
pub mod Steps
mod Moves
mod Returns
pub mod Stands
pub mod Orders
mod Lays
