-- Words that only proofs cite.
pub mod Sources
