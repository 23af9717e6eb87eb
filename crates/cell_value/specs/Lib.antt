pub mod Cell
pub mod Display
pub mod Row
pub mod Datum
pub mod State
pub mod Laws
pub mod inner
