-- Words that only private contracts and proofs cite.
pub mod Rising
pub mod Views
pub mod Totals
pub mod Levels
pub mod Firsts
pub mod Aids
pub mod Seen
