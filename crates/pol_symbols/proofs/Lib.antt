pub mod UserLaws
pub mod TableSequences
pub mod SymbolSearch
pub mod TableNames
