pub mod KnownRows
pub mod Responses
