pub mod Loaded
pub mod View
pub mod Answers
pub mod Audits
