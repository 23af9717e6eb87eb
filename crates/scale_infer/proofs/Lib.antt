mod HalfLemmas
mod SharerLemmas
