pub mod AskingLemmas
pub mod FitsLemmas
pub mod GateLemmas
pub mod OpenLemmas
pub mod PatternLemmas
pub mod QuickLemmas
pub mod ReadLemmas
pub mod TextLemmas
mod Refusals
mod Routes
