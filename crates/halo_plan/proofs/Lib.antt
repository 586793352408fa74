pub mod Planning
pub mod EdgeFacts
pub mod WorldFacts
pub mod Accepting
