-- what callers need
pub mod Glance
pub mod Ends
pub mod Whole
pub mod Kept
pub mod Lines
pub mod Shows
pub mod Written
pub mod Ending
pub mod Laws
-- for the rule and the proofs alone
pub mod Rule
pub mod Models
