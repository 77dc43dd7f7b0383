pub mod Singles
pub mod MakeAnswer
