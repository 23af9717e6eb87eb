pub mod Lists
pub mod Keys
pub mod Readings
mod UnitLemmas
pub mod FoldLemmas
pub mod LookupLemmas
