pub mod PassedItems
pub mod ConstraintPlaces
pub mod ConstraintLaws
pub mod ItemReading
pub mod ConstraintTexts
