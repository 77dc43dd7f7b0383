pub mod Walking
pub mod Turning
pub mod Covering
pub mod Settling
pub mod Searching
pub mod Going
pub mod Ending
pub mod Telling
