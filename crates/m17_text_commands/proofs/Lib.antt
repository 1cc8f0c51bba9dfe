pub mod JudgeCauses
pub mod Joins
pub mod Standing
pub mod RecordLines
pub mod JudgeRun
pub mod JudgeEnd
pub mod JudgeOneText
pub mod ShowCauses
pub mod Feeds
pub mod Held
pub mod OddDigits
pub mod LinesSoFar
pub mod ShowRun
pub mod ShowOneText
pub mod Drawn
pub mod Choices
pub mod Steady
pub mod Evenings
pub mod Turns
pub mod Followed
pub mod Fits
pub mod Texts
mod CheckComing
mod CheckOneText
pub mod Books
pub mod Written
pub mod MigrateComing
