pub mod Modular
pub mod Layers
pub mod Draws
pub mod RowArrays
