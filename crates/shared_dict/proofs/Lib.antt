pub mod Entries
pub mod Evictions
pub mod Progress
pub mod Sweeps
pub mod Answering
