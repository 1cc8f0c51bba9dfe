mod Keeping
pub mod Nothing
pub mod Answered
pub mod Statuses
pub mod LastLines
pub mod Causes
pub mod Ended
pub mod Written
pub mod TextRuns
pub mod MakeRuns
pub mod ReplayRuns
pub mod TalkRuns
pub mod ServeRuns
pub mod Passed
pub mod BothGuards
pub mod BridgeRuns
pub mod Runnable
pub mod Boards
pub mod Shelves
pub mod Codes
mod Fitting
mod Starting
