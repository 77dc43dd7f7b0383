pub mod FlowTexts
pub mod FlowAnswer
