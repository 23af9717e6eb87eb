pub mod OrderLemmas
pub mod WayLemmas
