pub mod Right
pub mod Standing
pub mod Shown
