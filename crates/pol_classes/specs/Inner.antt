pub mod ClassFreshness
