pub mod Faults
pub mod Reading
pub mod Codes
pub mod RoundTrip
pub mod Laws
