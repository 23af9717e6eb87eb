mod LawLemmas
mod SumLemmas
mod StackLemmas
mod RowLemmas
