pub mod Texts
pub mod Kem
pub mod Dsa
pub mod Problems
