pub mod ClassLaws
pub mod ClassForms
pub mod ClassTableParts
