pub mod CheckWords
pub mod CheckLines
pub mod Checklists
pub mod Inner
