pub mod Same
pub mod Sound
pub mod Whole
pub mod Refused
