pub mod Domains
pub mod Entries
pub mod Known
pub mod Laws
pub mod Ranges
pub mod Scales
pub mod inner
