pub mod Listed
pub mod AliasLists
pub mod PrimaryTypes
pub mod Attributes
pub mod RankedTypes
