pub mod CapabilityNumbers
pub mod KnownNames
