pub mod Words
pub mod Status
pub mod Note
pub mod Outcome
pub mod Plans
pub mod Run
pub mod Steps
