mod NoneLemmas
mod StartLemmas
