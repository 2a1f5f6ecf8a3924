pub mod States
pub mod Records
pub mod Bodies
pub mod Runs
pub mod Skips
