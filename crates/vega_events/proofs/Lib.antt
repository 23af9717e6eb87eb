mod HitLemmas
mod CountLemmas
mod ScaleLemmas
mod StoreLemmas
mod NameLemmas
