pub mod Told
pub mod Marks
pub mod Ear
pub mod Tallies
pub mod Mouth
pub mod Book
pub mod Ports
pub mod Laws
-- for proofs alone
pub mod Untold
