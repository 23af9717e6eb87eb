pub mod Laws
pub mod Spans
pub mod Stacks
pub mod inner
