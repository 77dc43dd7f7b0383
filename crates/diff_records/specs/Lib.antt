pub mod PropertyEntries
pub mod ClassEntries
pub mod DefaultEntries
pub mod LevelEntries
pub mod BoundsEntries
pub mod GenfsEntries
