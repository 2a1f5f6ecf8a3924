pub mod Recent
pub mod Keys
pub mod Kept
pub mod Changes
