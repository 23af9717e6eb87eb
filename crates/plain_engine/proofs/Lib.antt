pub mod MentionLemmas
pub mod Places
pub mod Changes
pub mod Replies
pub mod SettingLemmas
pub mod PictureLemmas
pub mod EventLemmas
pub mod TopLemmas
pub mod RowLemmas
pub mod PrintLemmas
mod EditLemmas
mod SettleLemmas
