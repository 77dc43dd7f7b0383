pub mod NumberedRecords
pub mod SpacedNames
pub mod ListedRecords
pub mod GenfsPlaces
