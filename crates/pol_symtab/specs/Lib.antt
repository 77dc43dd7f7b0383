pub mod Claims
pub mod SymbolFields
pub mod SymbolTables
pub mod Inner
