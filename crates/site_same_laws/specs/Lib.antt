pub mod Programs
pub mod SameSet
pub mod Sets
pub mod Readings
