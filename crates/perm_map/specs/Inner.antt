pub mod KeyedWeights
pub mod MapReading
pub mod RowViews
