-- Words that only private contracts and proofs cite.
pub mod Places
pub mod Besides
pub mod Ranks
