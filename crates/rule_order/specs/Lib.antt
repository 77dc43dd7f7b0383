pub mod ListedOrder
pub mod RuleKeys
pub mod LeastKeys
pub mod FoundRules
pub mod Inner
