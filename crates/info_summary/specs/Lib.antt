pub mod SummaryLines
pub mod RuleCounts
pub mod Counts
pub mod Summary
