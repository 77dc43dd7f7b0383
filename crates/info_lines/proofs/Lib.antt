pub mod DistinctRecords
pub mod FileOrder
pub mod ListedOnce
pub mod ListedTables
pub mod ListingLines
pub mod NameSets
pub mod Placing
