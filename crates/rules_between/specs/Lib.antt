pub mod ChosenRules
pub mod Inner
