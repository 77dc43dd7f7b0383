pub mod PermissionRecord
pub mod Permissions
pub mod CommonRecord
pub mod CommonTable
pub mod Inner
