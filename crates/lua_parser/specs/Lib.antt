pub mod Parts
pub mod Unfit
