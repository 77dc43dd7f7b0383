pub mod Walks
pub mod Turned
pub mod Moving
pub mod Inner
