pub mod Bitmap
pub mod Nodes
pub mod Sets
pub mod Kept
