pub mod Zips
pub mod Slots
pub mod Steps
pub mod Reports
pub mod Matching
