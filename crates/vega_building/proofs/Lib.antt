pub mod Lookups
pub mod Nested
