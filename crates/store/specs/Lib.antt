-- The definitions that the contracts of this crate cite.
pub mod Bytes
pub mod Answers
pub mod Own
pub mod Image
pub mod Changes
