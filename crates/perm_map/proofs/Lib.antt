pub mod Digits
pub mod Repeating
pub mod Gaining
