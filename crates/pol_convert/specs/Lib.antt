pub mod Grouped
pub mod Inner
pub mod Ungrouped
