pub mod State
pub mod Texts
pub mod Run
pub mod Names
pub mod Pairs
pub mod Running
pub mod Laws
