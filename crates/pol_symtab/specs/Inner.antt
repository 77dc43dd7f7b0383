pub mod NamePrefixes
pub mod TakenMembers
pub mod Freshness
pub mod TableIndex
pub mod Namings
