mod Place
mod GatherLemmas
pub mod LawLemmas
pub mod RowLemmas
