-- What the sender does, in order, and when an act may follow those before it.
pub mod Acts
pub mod Turns
-- What follows: what each membership is told, and what goes out to a peer by a link.
pub mod Orders
pub mod Joined
pub mod Laws
pub mod Places
pub mod Ready
pub mod Saying
pub mod Sent
pub mod Cells
pub mod SoFar
