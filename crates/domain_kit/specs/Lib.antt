pub mod Cells
pub mod Counting
pub mod Entries
pub mod Laws
pub mod Orders
pub mod inner
