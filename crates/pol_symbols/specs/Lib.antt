pub mod UserRecord
pub mod PolicySymbols
pub mod Inner
