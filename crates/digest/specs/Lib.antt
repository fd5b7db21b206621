pub mod Functions
pub mod Answers
