pub mod Follows
pub mod Bounds
pub mod Logging
