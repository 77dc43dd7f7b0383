pub mod CondNodeRecord
pub mod CondNodeList
pub mod Inner
