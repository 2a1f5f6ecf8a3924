pub mod Endings
pub mod Stepping
pub mod Events
pub mod Engine
