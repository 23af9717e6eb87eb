pub mod RowsLemmas
pub mod LeftRows
pub mod StateRows
pub mod SourcePlaces
pub mod KeptStates
pub mod Agreeing
