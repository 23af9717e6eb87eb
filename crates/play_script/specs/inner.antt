pub mod Pending
pub mod Progress
pub mod Reading
pub mod Once
