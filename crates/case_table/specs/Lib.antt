pub mod Case
pub mod Names
pub mod Arguments
pub mod TimeUnits
pub mod inner
