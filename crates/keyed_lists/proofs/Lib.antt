pub mod AddedKeys
pub mod Rising
pub mod Inserting
pub mod Paired
pub mod FoundEntries
pub mod SwappedKeys
pub mod DifferenceLaws
