-- Words that only private contracts and proofs cite.
pub mod Rows
pub mod Known
pub mod Places
pub mod Next
