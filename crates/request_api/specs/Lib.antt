pub mod Requests
pub mod Names
pub mod Setting
pub mod Lengths
pub mod Replies
pub mod Values
pub mod Variables
pub mod Heads
