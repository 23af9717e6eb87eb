pub mod Values
pub mod Layouts
pub mod Forms
pub mod Faults
pub mod Rows
pub mod Order
pub mod Tables
