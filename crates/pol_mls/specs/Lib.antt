pub mod LevelRecord
pub mod RangeRecord
pub mod MlsTexts
pub mod Inner
pub mod ContextRecord
pub mod ContextText
