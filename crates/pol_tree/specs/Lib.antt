pub mod PolicyTree
pub mod TreeSpelling
pub mod OptionalParts
pub mod RecordShapes
pub mod TreeShape
pub mod TreeRanges
pub mod Inner
