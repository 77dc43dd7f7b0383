pub mod ConstraintLists
pub mod ClassRecord
pub mod ClassTables
pub mod Inner
