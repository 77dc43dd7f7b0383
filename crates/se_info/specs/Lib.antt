pub mod ListingText
pub mod InfoAnswer
pub mod Inner
