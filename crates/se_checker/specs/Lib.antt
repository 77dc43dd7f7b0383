pub mod KnownNames
pub mod Members
pub mod Verdicts
pub mod Inner
