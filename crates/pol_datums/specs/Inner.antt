pub mod DatumFreshness
