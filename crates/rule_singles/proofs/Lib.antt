pub mod SetCuts
pub mod DeclaredMembers
pub mod AskedSets
pub mod Pools
pub mod Made
