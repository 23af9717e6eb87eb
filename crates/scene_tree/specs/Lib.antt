pub mod Outcome
pub mod Items
pub mod Hits
pub mod HitExamples
pub mod Moves
pub mod inner
