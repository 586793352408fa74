pub mod Keeping
pub mod Holding
pub mod TakeLaws
pub mod HexFacts
