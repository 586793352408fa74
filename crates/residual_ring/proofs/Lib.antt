pub mod ChangeFacts
