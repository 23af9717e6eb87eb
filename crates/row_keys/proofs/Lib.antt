mod OrderLemmas
mod LawLemmas
