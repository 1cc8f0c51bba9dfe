pub mod AllPosts
pub mod Bounds
pub mod Faults
pub mod Filters
pub mod Heard
pub mod Kept
pub mod Later
pub mod LawAll
pub mod LawAskers
pub mod LawClaims
pub mod LawCounts
pub mod LawDoor
pub mod LawEnds
pub mod LawJoins
pub mod LawLeaves
pub mod LawMore
pub mod LawNamed
pub mod LawNames
pub mod LawPeers
pub mod LawPosts
pub mod LawRouted
pub mod LawSays
pub mod LawSent
pub mod LawStops
pub mod LawWho
pub mod Lines
pub mod Named
pub mod Peers
pub mod Rows
pub mod Same
pub mod Settled
pub mod Tables
pub mod Taken
pub mod Told
mod Zips
mod Renamed
mod Otherwise
mod Freed
pub mod Waits
mod LawPlaces
mod LawFollows
