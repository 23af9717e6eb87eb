pub mod Extents
pub mod Steps
pub mod Bins
pub mod Binned
pub mod inner
