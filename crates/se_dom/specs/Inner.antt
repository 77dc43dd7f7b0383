pub mod ReasonRules
