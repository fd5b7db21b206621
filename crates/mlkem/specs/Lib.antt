pub mod PublicRows
