pub mod SearchAnswer
pub mod SearchPatterns
pub mod Inner
