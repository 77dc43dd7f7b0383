pub mod Counting
pub mod Cutting
pub mod Exploring
pub mod Leading
pub mod Turns
