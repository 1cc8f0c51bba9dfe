-- What callers speak of: the devices, what is pushed, claimed and taped, what a receiver begins
-- with, and what it did.
pub mod Devices
pub mod Posting
pub mod Claims
pub mod Tape
pub mod Ready
pub mod ReceiverDid
-- For proofs alone.
pub mod SoFar
