pub mod RuleKinds
pub mod StoredRules
pub mod RuleOrder
pub mod DeclaredRules
pub mod Inner
