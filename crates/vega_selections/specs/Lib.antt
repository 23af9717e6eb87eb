pub mod Marks
pub mod Plots
pub mod Updates
pub mod Selections
pub mod Kept
