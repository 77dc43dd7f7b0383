pub mod AllowRules
pub mod AskedBits
pub mod FileTypes
pub mod VerdictViews
