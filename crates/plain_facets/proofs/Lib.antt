mod MapLemmas
mod ListLemmas
mod OrderLemmas
mod FieldLemmas
pub mod DifferentLemmas
mod RepeatLemmas
pub mod PartLaw
pub mod PartLemmas
pub mod SumLemmas
pub mod CountLemmas
