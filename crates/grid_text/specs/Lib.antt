pub mod Numbers
pub mod Records
pub mod Reader
pub mod Faults
pub mod Reading
pub mod Kept
pub mod Printing
pub mod Making
