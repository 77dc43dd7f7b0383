pub mod NameOrder
pub mod NameSets
pub mod PermissionSets
pub mod Titles
pub mod ListedOnce
pub mod Inner
