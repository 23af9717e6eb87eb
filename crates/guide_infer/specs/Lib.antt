pub mod First
pub mod Once
pub mod Words
pub mod Said
pub mod Titles
pub mod Labels
pub mod Axes
pub mod Legends
