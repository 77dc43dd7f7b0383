pub mod LineViews
pub mod LastViews
