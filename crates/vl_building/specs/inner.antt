pub mod Escapes
pub mod Keyed
pub mod Index
pub mod Named
pub mod Finding
pub mod Kept
pub mod Heads
pub mod Words
