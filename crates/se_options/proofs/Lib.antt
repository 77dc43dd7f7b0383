pub mod Ended
pub mod Parts
pub mod LaterWords
pub mod LaterGroups
pub mod LaterPages
