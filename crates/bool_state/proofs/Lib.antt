pub mod TrueBooleans
pub mod BooleanSets
pub mod ConditionValues
