pub mod ListedRecords
pub mod ExpressionTexts
