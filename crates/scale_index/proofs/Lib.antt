mod KnownLemmas
mod BandLemmas
mod UnlistedLemmas
