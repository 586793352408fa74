pub mod Room
pub mod PartCounts
