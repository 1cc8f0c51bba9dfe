-- A client and one step of it.
pub mod Standing
pub mod Client
-- Runs of a client, those of `talk`, and what they do with the devices.
pub mod Steps
pub mod Talk
pub mod TalkDevices
-- The way to a reflector, and what follows of a client's end of it.
pub mod Way
pub mod Laws
-- For proofs alone: how far a run has come.
pub mod TalkSoFar
-- Both sides of a bridge, what passes, and its steps; what it keeps, and what that stands for.
pub mod Sides
pub mod Passing
pub mod BridgeSteps
pub mod StandsFor
-- What a bridge promises, and that every run of one keeps it.
pub mod Promise
pub mod BridgeLaws
-- Runs of `cross`, and what they do with the devices.
pub mod CrossRun
pub mod CrossDevices
-- For proofs alone: the parts of a step, and how far a run has come.
pub mod OneStep
pub mod CrossSoFar
