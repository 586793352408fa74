pub mod Finding
pub mod Making
pub mod ElementFacts
pub mod PassFacts
