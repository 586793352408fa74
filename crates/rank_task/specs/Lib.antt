pub mod Ranks
pub mod Blocks
pub mod KeptRanks
