-- Words that only private contracts and proofs cite.
pub mod View
pub mod Digits
