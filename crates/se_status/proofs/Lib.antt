pub mod Puts
pub mod Causes
pub mod Unless
pub mod LeastNumbers
