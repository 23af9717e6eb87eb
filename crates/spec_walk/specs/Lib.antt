pub mod Walk
pub mod Paths
pub mod Places
pub mod inner
