pub mod SolePlaces
