mod RowLemmas
mod ExtentLemmas
mod RoundLemmas
mod AgreeLemmas
mod OrderLaw
mod InnerLaw
mod KnownLemmas
mod PlaceLemmas
