pub mod SceneText
pub mod Examples
pub mod inner
