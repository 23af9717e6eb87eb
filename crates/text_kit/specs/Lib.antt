pub mod formers
pub mod Answer
