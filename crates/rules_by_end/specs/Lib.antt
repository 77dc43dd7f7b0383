pub mod RulesByEnd
pub mod Inner
