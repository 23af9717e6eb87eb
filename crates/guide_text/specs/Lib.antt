pub mod Widths
pub mod Formats
pub mod Numbers
pub mod Labels
