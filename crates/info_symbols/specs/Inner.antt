pub mod AliasLists
pub mod RankedTypes
