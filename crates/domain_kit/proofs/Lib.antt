mod CellLemmas
pub mod CountLemmas
mod EntryLemmas
mod FirstLemmas
mod HeldLemmas
mod NumberLemmas
pub mod TimeLemmas
