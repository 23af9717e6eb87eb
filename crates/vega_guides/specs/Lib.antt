pub mod Shown
pub mod Legends
pub mod Tested
