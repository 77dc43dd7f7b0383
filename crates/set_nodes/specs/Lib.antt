pub mod SetNodes
