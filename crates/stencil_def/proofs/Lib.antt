pub mod SquareFacts
pub mod SumFacts
pub mod StepFacts
pub mod FoldFacts
