pub mod Components
pub mod DifferenceLines
