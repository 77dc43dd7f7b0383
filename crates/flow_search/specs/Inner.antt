pub mod EdgesBetween
pub mod FlowParts
pub mod WeightTables
