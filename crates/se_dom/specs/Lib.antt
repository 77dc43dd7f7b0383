pub mod DomTexts
pub mod DomAnswer
pub mod Inner
