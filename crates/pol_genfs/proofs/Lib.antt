pub mod Places
pub mod GenfsLaws
