-- What callers speak of: a replay in one thread, as the definitions of directory and modules have it, its laws, and a run
-- that hears it.
pub mod Replay
pub mod Free
pub mod Laws
pub mod Hearing
-- For proofs alone: tallies, what was carried out, and how far a run has come.
pub mod Tallied
pub mod Carried
pub mod SoFar
