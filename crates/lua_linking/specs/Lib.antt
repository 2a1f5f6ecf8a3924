pub mod Raising
pub mod Joining
pub mod Mentions
pub mod Names
