pub mod Plan
pub mod Kept
pub mod Edges
pub mod Making
pub mod Tiles
pub mod Blocks
pub mod KeptTiles
