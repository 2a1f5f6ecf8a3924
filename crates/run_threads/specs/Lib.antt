pub mod Handlers
pub mod Views
pub mod Threads
