pub mod EdgeItems
pub mod Placed
pub mod StepTexts
pub mod WalkItems
