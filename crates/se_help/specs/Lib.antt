pub mod Topics
pub mod Texts
