pub mod ReadValues
pub mod PolicyTypes
pub mod Acceptances
pub mod Sequences
pub mod HeaderLaws
