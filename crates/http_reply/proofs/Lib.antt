pub mod Calendar
pub mod Sizes
pub mod Joining
