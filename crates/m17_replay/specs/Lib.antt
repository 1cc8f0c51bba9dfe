-- What callers speak of: what is to be heard has an end, and what it came to.
pub mod Ending
pub mod Tapes
-- For proofs alone: the devices of a run, and the laws that a replay rests on.
pub mod Rooms
pub mod Known
-- What callers speak of: what `replay` prints, how it ends, and its laws. `Run`, which no public clause cites, is for the
-- code.
pub mod Reasons
pub mod Replay
pub mod Endings
pub mod Laws
pub mod Run
-- the line of an entry, and the lines of a summary
pub mod Lines
pub mod Summary
pub mod Counted
