-- Words that only private contracts and proofs cite.
pub mod Reading
pub mod Stops
pub mod Folders
pub mod Files
pub mod Rows
pub mod Trees
