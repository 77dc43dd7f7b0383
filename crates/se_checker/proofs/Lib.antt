pub mod UnknownLines
pub mod NamedTypes
pub mod WantedTypes
pub mod FileWords
pub mod AllowedRules
pub mod AskedMasks
pub mod FoundRules
pub mod GivenFiles
