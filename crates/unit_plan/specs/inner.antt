pub mod Kinds
pub mod Lent
pub mod LentShows
pub mod LentLanes
