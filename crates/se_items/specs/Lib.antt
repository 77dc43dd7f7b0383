pub mod Writing
pub mod Paging
pub mod Pieces
