pub mod KeptSlots
pub mod ReadAhead
pub mod WholeTexts
