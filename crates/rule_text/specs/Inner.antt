pub mod ClassPermissions
pub mod IoctlRuns
pub mod ShownNames
