pub mod CountedRules
pub mod EnabledPolicy
pub mod Inner
