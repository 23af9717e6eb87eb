pub mod OwnNames
pub mod Laws
pub mod Orders
