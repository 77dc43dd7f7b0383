pub mod TypeRows
pub mod PolicyParts
pub mod PolicyReferences
pub mod Acceptance
pub mod TypeValues
pub mod HeaderRecord
