pub mod Granted
pub mod Views
pub mod Loads
pub mod Written
pub mod Kept
pub mod Counted
pub mod Audited
