pub mod Items
pub mod Scenes
pub mod Panels
pub mod Charts
pub mod Answers
pub mod inner
pub mod Laws
pub mod OnePlotLaws
