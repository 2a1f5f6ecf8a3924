pub mod Programs
pub mod Handlers
pub mod Chunks
pub mod Starts
pub mod Views
pub mod Loading
pub mod Same
