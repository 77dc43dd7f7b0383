pub mod EvenPlaces
pub mod BitPlaces
