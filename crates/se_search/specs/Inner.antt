pub mod RowLines
pub mod RuleLines
pub mod SingleLines
