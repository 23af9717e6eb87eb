-- Words that only private contracts and proofs cite.
pub mod Kept
pub mod Levels
pub mod Framed
pub mod Drawn
pub mod Plotted
pub mod Placed
pub mod Topped
