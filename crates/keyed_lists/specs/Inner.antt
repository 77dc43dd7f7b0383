pub mod Adding
pub mod PlacedEntries
