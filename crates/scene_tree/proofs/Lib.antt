mod LastLemmas
mod RunLemmas
mod HitLemmas
mod ExtentLemmas
mod SquareLemmas
pub mod MoveLemmas
