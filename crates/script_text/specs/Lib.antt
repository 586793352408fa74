pub mod Words
pub mod Calls
pub mod Script
pub mod Reading
