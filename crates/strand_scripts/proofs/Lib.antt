pub mod Steps
pub mod Turning
pub mod Left
