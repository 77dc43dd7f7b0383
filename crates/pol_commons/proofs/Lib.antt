pub mod NestedValues
pub mod Claimed
pub mod ListedPermissions
pub mod CommonLaws
pub mod CommonSearch
