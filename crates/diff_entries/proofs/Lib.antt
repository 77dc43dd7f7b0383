pub mod SameNames
pub mod SetChanges
pub mod PlacedKeys
pub mod EntryLaws
