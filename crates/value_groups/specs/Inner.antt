pub mod Dense
pub mod Grouping
pub mod Marking
