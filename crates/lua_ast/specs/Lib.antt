pub mod Height
pub mod WholeProgram
pub mod SameProgram
