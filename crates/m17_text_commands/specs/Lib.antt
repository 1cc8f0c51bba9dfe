pub mod JudgeReasons
pub mod Records
pub mod Judge
pub mod JudgeLaws
-- for proofs alone
pub mod Table
pub mod JudgeRun
pub mod ShowReasons
pub mod Lines
pub mod Show
pub mod ShowLaws
-- for proofs alone
pub mod Reading
pub mod Pending
pub mod ShowRun
-- What callers speak of: the trace of an evening, and what it has of each kind.
pub mod Draws
pub mod Hotspots
pub mod Moments
pub mod Made
pub mod Streams
pub mod Make
pub mod MakeLaws
-- what the code keeps
pub mod Talk
pub mod Maker
pub mod CheckReasons
pub mod Check
pub mod CheckLaws
-- for proofs alone
pub mod Judged
pub mod MigrateReasons
pub mod Migrate
pub mod MigrateLaws
-- for proofs alone
pub mod Moved
