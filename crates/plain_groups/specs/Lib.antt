pub mod Groups
pub mod Aggregates
pub mod GroupRows
pub mod Laws
pub mod inner
