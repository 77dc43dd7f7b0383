pub mod Cells
pub mod Blocks
