pub mod SimpleWalks
pub mod Rooms
pub mod Inner
