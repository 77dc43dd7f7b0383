pub mod Elements
pub mod Modes
