pub mod FirstLine
mod Left
mod Loop
pub mod Numbers
pub mod Problems
pub mod Split
pub mod Weaker
