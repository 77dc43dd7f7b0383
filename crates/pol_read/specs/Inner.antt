pub mod RuleNumbers
pub mod RunningSums
pub mod RuleRecords
