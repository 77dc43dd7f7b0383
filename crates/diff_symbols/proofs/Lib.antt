pub mod ListedNumbers
pub mod RecordTexts
pub mod AttributeTypes
