pub mod Escapes
pub mod Arguments
pub mod Paths
pub mod Targets
pub mod Plain
