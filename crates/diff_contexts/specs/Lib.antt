pub mod ContextEntries
