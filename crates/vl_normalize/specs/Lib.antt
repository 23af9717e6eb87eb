pub mod Channels
pub mod Codes
pub mod Facets
pub mod Heads
pub mod Marks
pub mod Normal
