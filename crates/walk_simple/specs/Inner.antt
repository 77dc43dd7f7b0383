pub mod Tables
pub mod Searching
pub mod Distances
