pub mod RangeLemmas
pub mod NumberTexts
pub mod Several
pub mod TableLemmas
pub mod ValueLaws
pub mod StoreLemmas
