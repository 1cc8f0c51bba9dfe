pub mod Tables
pub mod Values
pub mod Words
pub mod Laws
-- for proofs alone
pub mod BridgeValues
pub mod First
pub mod Given
pub mod Listed
pub mod Plans
pub mod TalkValues
