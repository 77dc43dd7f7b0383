pub mod Keys
pub mod Digits
