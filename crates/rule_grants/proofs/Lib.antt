pub mod GivenTypes
pub mod ByRules
