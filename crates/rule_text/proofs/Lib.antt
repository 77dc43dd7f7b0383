pub mod SetTexts
pub mod RunTexts
pub mod ByName
pub mod PermissionLists
pub mod ClassLists
pub mod Frames
