pub mod Controls
pub mod Parts
pub mod Reading
pub mod Refused
pub mod ModuleSets
pub mod ModuleTexts
mod ModuleRanks
mod ModuleBits
