pub mod StatedOrder
pub mod ConstraintsAlone
pub mod FilledTexts
pub mod FilledLines
pub mod Groups
pub mod ConstraintLaws
