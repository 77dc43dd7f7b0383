pub mod Counted
pub mod Made
pub mod Written
