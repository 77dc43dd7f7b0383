pub mod MadeSymbols
pub mod MadeRules
pub mod Made
