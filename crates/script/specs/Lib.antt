pub mod Numbers
pub mod Lines
pub mod Replies
pub mod Stages
pub mod Answers
pub mod Turns
pub mod Feeds
