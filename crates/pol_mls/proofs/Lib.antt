pub mod MlsLaws
pub mod NumberRuns
pub mod RunTexts
pub mod RangePlaces
pub mod ContextLaws
pub mod ContextPlaces
