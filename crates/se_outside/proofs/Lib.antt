pub mod Found
pub mod SlotLemmas
pub mod Slots
pub mod Refusals
