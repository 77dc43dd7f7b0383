pub mod UserFreshness
pub mod TableNames
