pub mod Filled
pub mod Filling
pub mod Laws
pub mod Frame
pub mod Echo
pub mod Guarded
-- for proofs alone
pub mod Follows
pub mod GuardMemory
pub mod Pace
pub mod Paced
-- for proofs alone
pub mod PaceMemory
