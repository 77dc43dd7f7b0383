pub mod TypeNames
pub mod StatedRules
pub mod Numbered
pub mod WalkTexts
pub mod GraphItems
pub mod GraphAnswer
pub mod Inner
