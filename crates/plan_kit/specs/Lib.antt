pub mod Literals
pub mod Joins
pub mod Among
