pub mod Arithmetic
pub mod NumberText
