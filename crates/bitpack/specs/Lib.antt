pub mod Problems
pub mod Widths
pub mod Answers
