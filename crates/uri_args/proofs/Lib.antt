pub mod Escaping
pub mod Cutting
pub mod Plain
