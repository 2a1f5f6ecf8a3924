pub mod Queue
pub mod Times
pub mod Kept
