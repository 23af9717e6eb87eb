-- Words that only private contracts and proofs cite.
pub mod Kinds
pub mod JsonNames
pub mod Ahead
pub mod Left
pub mod Records
pub mod Header
