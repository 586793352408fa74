pub mod Calls
pub mod Slots
pub mod KeyLists
pub mod Matching
pub mod Ledger
pub mod World
pub mod Sound
pub mod Merges
