pub mod Crew
pub mod Laws
