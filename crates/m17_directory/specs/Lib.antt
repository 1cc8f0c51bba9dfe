-- What callers speak of: what a link heard, who is known, what an entry becomes, what a directory
-- stands for.
pub mod Entries
pub mod Known
pub mod Outcome
pub mod Routed
pub mod Given
pub mod StandsFor
pub mod Laws
pub mod Fits
-- For proofs alone.
pub mod Steps
pub mod Sound
