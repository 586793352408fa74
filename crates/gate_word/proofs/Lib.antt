pub mod Packing
pub mod BitSets
pub mod Laws
