pub mod StatedConstraints
pub mod ConstraintDifferences
pub mod Inner
