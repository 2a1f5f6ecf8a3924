pub mod Dates
pub mod Reasons
pub mod Lines
pub mod Heads
pub mod Chunks
pub mod Bodies
pub mod BuiltIn
pub mod Replies
