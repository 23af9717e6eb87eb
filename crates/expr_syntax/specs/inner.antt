pub mod Scanner
pub mod Parser
pub mod Expression
pub mod Calls
