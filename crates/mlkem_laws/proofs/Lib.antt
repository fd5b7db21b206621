pub mod Rounding
pub mod Keys
pub mod Exchange
