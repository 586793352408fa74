pub mod Walking
pub mod Lists
pub mod Reading
pub mod Output
pub mod Telling
