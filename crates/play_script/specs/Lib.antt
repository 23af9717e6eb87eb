pub mod Meaning
pub mod Laws
pub mod Played
pub mod inner
