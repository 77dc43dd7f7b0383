pub mod SetCounts
