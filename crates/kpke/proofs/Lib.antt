pub mod Entries
mod Texts
