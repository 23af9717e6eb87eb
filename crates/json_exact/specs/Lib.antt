pub mod Reading
pub mod Values
pub mod Inside
pub mod Path
pub mod Writing
pub mod inner
