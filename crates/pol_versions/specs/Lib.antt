pub mod Conversion
pub mod Inner
pub mod KeptRecords
pub mod Losses
