pub mod Settings
pub mod CheckNames
pub mod ReadingRows
