pub mod Placing
pub mod Lines
pub mod Listings
