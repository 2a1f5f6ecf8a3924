mod Apart
pub mod Blocks
pub mod Pushed
