pub mod Types
pub mod Said
pub mod Measures
pub mod Kinds
pub mod Flags
pub mod Paddings
pub mod Scales
