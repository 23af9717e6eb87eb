pub mod Lengths
pub mod Grid
pub mod Layout
pub mod inner
