pub mod Reading
pub mod Answer
pub mod Answers
pub mod Runs
