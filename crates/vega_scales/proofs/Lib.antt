mod ColumnLemmas
mod KnownLemmas
mod ScaleLemmas
pub mod FitsLemmas
mod TimeLemmas
