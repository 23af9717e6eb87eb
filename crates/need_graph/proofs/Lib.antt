pub mod NeedLemmas
pub mod LevelLemmas
pub mod SearchLemmas
