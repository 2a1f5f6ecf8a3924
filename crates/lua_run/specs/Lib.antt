pub mod Answers
pub mod Views
pub mod Runs
pub mod Services
pub mod RunLaws
pub mod Replies
