mod ChannelLemmas
mod CircleLemmas
mod FilterLemmas
mod FirstLemmas
mod KeyedLemmas
mod LoopLemmas
mod NamesLemmas
mod ViewLemmas
