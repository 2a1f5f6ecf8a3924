pub mod Left
pub mod Sound
pub mod Trees
pub mod Runs
pub mod Complete
pub mod Refused
pub mod Live
