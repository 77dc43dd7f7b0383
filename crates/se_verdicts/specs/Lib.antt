pub mod CheckAnswer
pub mod Inner
