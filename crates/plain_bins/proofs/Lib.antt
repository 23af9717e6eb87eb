pub mod ExtentLemmas
pub mod StepLemmas
pub mod BinLemmas
pub mod BinnedLemmas
