pub mod Status
pub mod Message
pub mod LeastWord
pub mod Conclusion
