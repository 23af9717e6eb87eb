pub mod Outcome
pub mod Parse
pub mod JsonRows
pub mod TextRows
pub mod CsvRows
pub mod inner
