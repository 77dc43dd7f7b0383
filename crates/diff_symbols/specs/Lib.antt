pub mod SymbolEntries
pub mod TypeEntries
