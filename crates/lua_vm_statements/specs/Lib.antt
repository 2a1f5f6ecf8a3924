pub mod Returns
pub mod Targets
pub mod Assignments
