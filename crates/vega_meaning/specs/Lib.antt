pub mod Charts
pub mod Times
pub mod UnitRows
pub mod Semantics
pub mod States
pub mod Answers
pub mod Laws
