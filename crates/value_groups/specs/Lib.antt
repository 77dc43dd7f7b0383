pub mod Among
pub mod Inner
