pub mod Postfix
pub mod ConditionRecord
pub mod Trees
pub mod Infix
pub mod ConditionMeaning
