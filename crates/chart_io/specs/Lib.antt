pub mod Counts
pub mod Dir
pub mod Memory
pub mod Outside
pub mod Stream
