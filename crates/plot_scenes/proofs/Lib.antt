mod AxisLemmas
pub mod OrderLemmas
mod GridLemmas
mod PanelLemmas
pub mod OnePlotLaw
