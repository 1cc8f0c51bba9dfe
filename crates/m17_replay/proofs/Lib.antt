pub mod Lists
pub mod TapeSteps
pub mod Alone
pub mod Freely
pub mod Taped
pub mod Packets
pub mod QueueCounts
pub mod Told
pub mod Whole
mod Writing
mod Steps
mod HeardLemmas
mod Judged
mod Printed
mod UnderWay
mod Ends
mod OneText
mod Lost
mod FreeText
mod PlainText
mod ToEnd
mod Joined
mod CountedMore
