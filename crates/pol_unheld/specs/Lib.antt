pub mod UnheldWords
