pub mod RecordOrder
pub mod ConstraintLines
pub mod DefaultLines
pub mod BoundsLines
pub mod Inner
