mod Numbers
pub mod Groups
