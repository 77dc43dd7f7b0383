pub mod KeyOrder
pub mod Differences
pub mod Inner
