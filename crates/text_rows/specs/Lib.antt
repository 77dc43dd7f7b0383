pub mod TextLines
pub mod RowViews
