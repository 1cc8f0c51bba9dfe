-- What callers speak of: links, a run, and the headline by its parts.
pub mod Links
pub mod Run
pub mod Trails
pub mod Judged
pub mod Places
pub mod Queues
pub mod Sendings
pub mod Patience
pub mod Headline
pub mod Laws
pub mod Turns
pub mod Views
-- The parts of a run: the ends of all lanes, the jobs of a plan and the rooms; groups of jobs; what comes out of jobs.
pub mod Ends
pub mod Jobs
pub mod Rooms
pub mod Groups
pub mod Parts
pub mod Left
pub mod Rest
pub mod Rows
-- For proofs: jobs that have no devices yet, and jobs that are taken apart.
pub mod Bare
pub mod Site
pub mod Taken
pub mod Lanes
pub mod Saying
pub mod Parted
pub mod Gathered
pub mod Known
