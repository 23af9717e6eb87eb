pub mod Words
pub mod Refusals
pub mod Wanted
pub mod Ends
pub mod Laws
pub mod inner
