pub mod Fitting
pub mod FittingTree
