pub mod EntryParts
