pub mod Scale
pub mod Lines
pub mod Bands
pub mod Places
pub mod Colors
pub mod inner
