pub mod PostfixReading
pub mod ItemPlaces
pub mod Dropped
pub mod References
pub mod ConditionLaws
pub mod Stacks
pub mod ConditionTrees
pub mod BooleanSets
