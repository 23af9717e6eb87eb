mod ChannelLemmas
pub mod NormalLemmas
mod ViewLemmas
