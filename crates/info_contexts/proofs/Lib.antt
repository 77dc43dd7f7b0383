pub mod GenfsEntries
pub mod NamedEntries
