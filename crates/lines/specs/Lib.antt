pub mod Answers
pub mod Left
pub mod Problems
pub mod Words
