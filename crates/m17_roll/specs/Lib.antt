-- what callers need
pub mod Sightings
pub mod Seat
pub mod Run
pub mod Closing
pub mod Laws
-- for the rule and the proofs alone
pub mod Notes
pub mod Rule
pub mod SeatModel
pub mod Joined
pub mod GatheredModel
pub mod EndModel
