pub mod Counts
pub mod Sent
