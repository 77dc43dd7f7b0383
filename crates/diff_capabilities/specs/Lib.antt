pub mod CapabilityEntries
