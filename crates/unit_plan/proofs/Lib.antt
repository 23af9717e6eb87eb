mod BranchLemmas
mod FilterLemmas
mod KindLemmas
