mod ItemLemmas
mod FixedLemmas
mod RowLemmas
mod PathLemmas
mod ShapeLemmas
mod GroupLemmas
mod ScaleLemmas
mod LawLemmas
