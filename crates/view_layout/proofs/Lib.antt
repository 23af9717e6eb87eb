pub mod GridLemmas
pub mod PlanLemmas
