pub mod CountFacts
pub mod PartFacts
pub mod ShareFacts
pub mod ByteFacts
pub mod RowFacts
pub mod Facts
pub mod TableFacts
