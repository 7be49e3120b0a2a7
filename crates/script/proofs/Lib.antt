pub mod Digits
pub mod Texts
pub mod Answered
pub mod Fed
