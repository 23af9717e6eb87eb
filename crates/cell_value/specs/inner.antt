-- Words that only private contracts and proofs cite.
pub mod CellOrder
pub mod Place
pub mod Gather
pub mod Held
