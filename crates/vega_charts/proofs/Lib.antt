pub mod OutcomeLemmas
pub mod TopLaws
pub mod TopLemmas
pub mod RowLemmas
pub mod ItemOrder
pub mod OnePlot
pub mod OnePlotLaw
