pub mod Hexadecimal
pub mod NameTexts
pub mod AddressTexts
pub mod NumberNames
pub mod NumberTexts
pub mod NameLists
pub mod SetTexts
