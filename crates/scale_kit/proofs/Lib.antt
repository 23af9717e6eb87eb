mod ShareLemmas
mod BetweenLemmas
mod LineLemmas
mod BandLemmas
mod IndexLemmas
mod FarLemmas
