pub mod EnabledRules
pub mod OnlyEnabled
