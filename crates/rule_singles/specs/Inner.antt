pub mod EndSets
