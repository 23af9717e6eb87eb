mod SortLemmas
mod EntryLemmas
mod RankLemmas
pub mod OrderLemmas
mod KeyOrder
mod PartitionLemmas
pub mod ListedLemmas
