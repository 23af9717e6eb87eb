mod NumberLemmas
mod NameLemmas
pub mod FoldLemmas
