pub mod DatumLaws
