pub mod Orders
pub mod Listed
pub mod Partitions
pub mod inner
