pub mod MapFaults
pub mod MapFields
pub mod PermissionMap
pub mod Inner
