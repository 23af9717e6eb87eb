mod LastLemmas
mod AlongLemmas
mod InverseLemmas
pub mod FieldLemmas
mod ExtentLemmas
pub mod KeptLemmas
mod BrushLemmas
mod UnitLemmas
