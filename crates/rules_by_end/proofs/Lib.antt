pub mod Rows
pub mod RowPlaces
pub mod Permuted
pub mod Halves
pub mod SortedParts
