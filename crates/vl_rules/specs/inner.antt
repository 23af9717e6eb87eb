pub mod Counted
pub mod Found
pub mod Held
pub mod Shown
