pub mod Ends
pub mod Looking
pub mod Marking
pub mod Many
pub mod Testing
