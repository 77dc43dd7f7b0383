pub mod FieldTable
