-- Words that only private contracts and proofs cite.
pub mod Pieces
pub mod Printing
pub mod Runs
