pub mod Scopes
pub mod Lines
pub mod Replies
pub mod Views
