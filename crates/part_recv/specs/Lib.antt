pub mod Seeing
pub mod Found
pub mod Watching
pub mod Hearing
pub mod Receiving
pub mod Taking
pub mod Parting
