pub mod Lists
pub mod Acts
pub mod Overlays
pub mod Lanes
