pub mod PlaceGroups
