pub mod FaultWords
pub mod FieldWords
