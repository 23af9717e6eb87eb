-- Words that only private contracts and proofs cite.
pub mod Results
pub mod Levels
pub mod Outlined
pub mod Copied
pub mod Alike
pub mod Counted
pub mod Kept
pub mod Standing
pub mod Made
pub mod FactsSeen
pub mod FactsMade
pub mod Tested
