pub mod CheckLines
