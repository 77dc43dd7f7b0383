pub mod Soundness
pub mod CutFiles
