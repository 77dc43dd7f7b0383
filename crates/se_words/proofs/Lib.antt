pub mod Cuts
pub mod Endings
pub mod Lasts
pub mod Numbers
pub mod Texts
