mod Vectors
mod Rounds
mod Words
