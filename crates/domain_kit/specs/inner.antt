-- Words that only private contracts and proofs cite.
pub mod Extents
pub mod Held
