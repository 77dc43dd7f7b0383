pub mod DuplicateKeys
pub mod EvenRules
