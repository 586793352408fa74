pub mod Limits
pub mod Plane
pub mod Square
pub mod Step
