pub mod Shape
pub mod Making
pub mod Cells
pub mod Pieces
pub mod Walk
