pub mod NumberedEntries
