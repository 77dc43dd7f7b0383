pub mod Edges
pub mod Answered
pub mod Resumed
