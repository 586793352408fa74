pub mod Pairs
pub mod Arguments
pub mod Faults
pub mod Numbers
