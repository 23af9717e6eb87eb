pub mod Conditioned
pub mod First
pub mod Index
pub mod Keyed
pub mod Looked
pub mod Numbers
pub mod Shown
