mod DeclaredSources
mod EntryLengths
mod GroupRows
mod MadeOfRows
pub mod Members
pub mod Parts
