pub mod Texts
pub mod Visits
pub mod Faults
pub mod Reading
