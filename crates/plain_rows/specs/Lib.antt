pub mod Rows
pub mod Answers
pub mod Filters
pub mod Calculations
pub mod TimeUnits
pub mod Folds
pub mod Lookups
pub mod inner
