pub mod Script
pub mod Reasons
pub mod Reading
pub mod Laws
pub mod Devices
pub mod Talked
pub mod TalkEndings
-- for proofs alone
pub mod Walk
pub mod Asking
pub mod Bridged
pub mod BridgeCommandEndings
-- for proofs alone
pub mod Printing
