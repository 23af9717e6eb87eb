pub mod Stops
pub mod Asking
pub mod Runs
