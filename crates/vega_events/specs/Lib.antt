pub mod Scales
pub mod Events
pub mod Premises
pub mod Laws
