pub mod ByDefault
pub mod EdgesBetween
pub mod EntryPoints
pub mod Keeping
pub mod RuleLists
pub mod Targets
