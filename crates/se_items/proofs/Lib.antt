pub mod Gains
pub mod Wrotes
pub mod PieceTexts
pub mod Pages
pub mod Resuming
