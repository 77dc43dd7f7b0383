pub mod EntryPlaces
