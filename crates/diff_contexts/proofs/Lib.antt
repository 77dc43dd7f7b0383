pub mod RecordEntries
pub mod JoinedEntries
