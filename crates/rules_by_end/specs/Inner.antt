pub mod GroupedRules
