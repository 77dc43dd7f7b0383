pub mod NamedEntries
pub mod LineTexts
