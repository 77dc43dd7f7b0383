pub mod Ends
pub mod Steps
pub mod Found
pub mod ByOneEnd
pub mod Shared
pub mod TargetsAmong
