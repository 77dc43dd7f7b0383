pub mod Parts
pub mod Entries
pub mod Changes
pub mod Inner
