pub mod OptionFacts
pub mod WordFacts
pub mod RowFacts
pub mod FormFacts
pub mod WalkFacts
pub mod OutcomeFacts
pub mod CommandFacts
