pub mod Worked
pub mod Turns
