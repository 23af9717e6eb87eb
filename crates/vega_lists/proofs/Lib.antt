pub mod KeyLemmas
mod HeldLemmas
mod ParamLemmas
mod StepLemmas
pub mod PlaceLemmas
pub mod OuterLemmas
pub mod ListLemmas
pub mod StateLemmas
