-- Words that only private contracts and proofs cite.
pub mod Topped
pub mod Rows
pub mod Outcomes
