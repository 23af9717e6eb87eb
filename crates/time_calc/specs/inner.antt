pub mod Datetime
pub mod Forms
pub mod Labels
pub mod Texts
