pub mod CommonFreshness
