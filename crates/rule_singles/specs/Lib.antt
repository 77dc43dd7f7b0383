pub mod FoundSingles
pub mod Inner
