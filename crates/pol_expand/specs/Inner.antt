pub mod Inverting
pub mod StoredEnds
