pub mod Threads
pub mod Sites
pub mod Handlers
