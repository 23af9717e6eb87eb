mod Found
mod Back
mod Places
mod Leaves
mod Words
mod OrdersBack
mod GuidesBack
mod DomainsBack
mod ScalesBack
mod EncodeBack
mod GroupingsBack
mod TransformsBack
mod SourcesBack
mod SignalsBack
mod MarksBack
pub mod SpecBack
mod ReadAgain
