pub mod FirstForm
pub mod Bars
pub mod Opening
pub mod Drawable
pub mod Laws
pub mod Examples
pub mod inner
