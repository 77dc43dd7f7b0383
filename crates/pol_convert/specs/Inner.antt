pub mod FoundSources
pub mod GroupRows
pub mod Parts
