pub mod Queue
pub mod Writing
