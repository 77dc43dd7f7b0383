pub mod Word
pub mod Options
pub mod Values
pub mod Given
pub mod States
pub mod Misfits
