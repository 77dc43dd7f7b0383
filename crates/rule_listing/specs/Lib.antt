pub mod ReadRules
pub mod Inner
