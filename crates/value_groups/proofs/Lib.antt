pub mod Anys
pub mod Filters
pub mod Adding
pub mod Words
pub mod Marks
pub mod PlacesByValue
pub mod Stretches
