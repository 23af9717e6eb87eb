pub mod HalfLemmas
pub mod EachLemmas
pub mod AllLemmas
pub mod SymbolLemmas
pub mod CutLemmas
