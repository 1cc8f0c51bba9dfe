pub mod Patterns
pub mod Text
pub mod Taking
pub mod Reasons
pub mod Endings
pub mod Asking
pub mod Fits
pub mod Gated
pub mod Links
pub mod Laws
pub mod Denied
-- for proofs alone
pub mod Answers
pub mod Steps
pub mod Unended
