pub mod ReasonLemmas
pub mod Texts
pub mod Edges
pub mod Resumed
