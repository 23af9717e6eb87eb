mod CommandForms
mod CommandLines
pub mod Feeds
pub mod Split
pub mod Sinks
pub mod Done
pub mod Standing
pub mod Once
pub mod Output
pub mod Vega
pub mod Exits
pub mod Replied
pub mod Shown
