pub mod NumberedRules
pub mod Forms
pub mod Inner
