pub mod Tests
pub mod Records
pub mod LookedUp
pub mod Patterns
