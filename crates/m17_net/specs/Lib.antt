pub mod Address
pub mod Errors
pub mod Tries
pub mod Wire
pub mod Moments
pub mod Files
pub mod Devices
pub mod Stops
pub mod Waits
pub mod Laws
-- for proofs alone
pub mod Stopping
pub mod Taking
