-- what callers need
pub mod Kept
pub mod Board
pub mod Boarded
-- for the parts and the proofs alone
pub mod Putting
pub mod Returning
