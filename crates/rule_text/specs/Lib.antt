pub mod IoctlTexts
pub mod ConditionTexts
pub mod RuleTexts
pub mod RuleFrames
pub mod Inner
