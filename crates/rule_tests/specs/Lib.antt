pub mod AskedPermissions
pub mod AskedNumbers
pub mod AskedKinds
pub mod PartTests
pub mod Inner
