pub mod Expansion
pub mod Flavours
pub mod PolicyMap
pub mod PlainTypes
pub mod JoinedTypes
pub mod Inner
