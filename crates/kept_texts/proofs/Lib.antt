pub mod KeptSlots
