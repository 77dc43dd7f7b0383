pub mod Gathering
pub mod MarkedSets
pub mod NumberedRules
pub mod Refusing
pub mod LookedUp
pub mod Resolved
pub mod ResolvingWords
