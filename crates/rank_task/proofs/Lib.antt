pub mod RowFacts
pub mod HaloFacts
pub mod RestFacts
pub mod OutsideFacts
pub mod StepFacts
pub mod GridFacts
pub mod MostFacts
