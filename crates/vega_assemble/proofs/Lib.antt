mod TableNames
mod MarkLemmas
mod OrderLemmas
mod ViewLemmas
mod TopLemmas
