pub mod Runs
pub mod Bounds
pub mod Ranges
pub mod Iterations
