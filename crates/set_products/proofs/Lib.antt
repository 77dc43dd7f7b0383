pub mod Rising
pub mod Counted
pub mod Products
pub mod Stepping
pub mod Ruling
