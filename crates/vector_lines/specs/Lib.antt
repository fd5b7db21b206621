pub mod Faults
pub mod Words
pub mod KemLines
pub mod DsaLines
pub mod Fields
pub mod Lines
