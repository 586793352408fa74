pub mod Options
pub mod BehindFirst
pub mod Command
pub mod Words
pub mod Limits
