pub mod NumberLemmas
mod SortLemmas
pub mod PlaceLemmas
mod MemberLemmas
pub mod GroupLemmas
mod ReadLemmas
pub mod KeyLemmas
mod JoinLemmas
pub mod LawLemmas
