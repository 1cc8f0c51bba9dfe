pub mod Line
pub mod Refused
pub mod Packets
pub mod Kinds
pub mod Verdicts
pub mod Endings
pub mod Texts
-- for proofs alone
pub mod Parts
