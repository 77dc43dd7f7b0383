pub mod Turns
pub mod Answered
pub mod Settled
pub mod Messages
pub mod Complete
pub mod Resumed
