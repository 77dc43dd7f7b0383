pub mod AvKeys
pub mod AvRecord
pub mod XPerms
pub mod AvTables
pub mod Inner
