-- Words that only private contracts and proofs cite.
pub mod Reader
pub mod Along
pub mod Ahead
