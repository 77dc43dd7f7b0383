pub mod ConstraintRecord
pub mod ConstraintTexts
