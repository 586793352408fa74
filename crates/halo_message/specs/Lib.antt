pub mod Message
pub mod Kept
pub mod Elements
pub mod Passing
