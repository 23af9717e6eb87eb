pub mod Engine
pub mod inner
