pub mod Stream
pub mod Laws
-- for proofs alone
pub mod Fields
