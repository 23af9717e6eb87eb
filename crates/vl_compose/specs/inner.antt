pub mod Conditioned
pub mod Found
pub mod Opened
pub mod Rows
pub mod Said
