mod DefinitionLemmas
mod LoopLemmas
mod MarkedLemmas
mod ViewLemmas
