pub mod Capabilities
pub mod Listings
pub mod Inner
