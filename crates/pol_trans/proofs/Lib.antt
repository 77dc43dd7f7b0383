pub mod TransLaws
pub mod NameData
