-- Words that only private contracts and proofs cite.
pub mod Scaled
pub mod Fixed
pub mod Kinds
pub mod Scales
pub mod Shapes
pub mod PathParts
