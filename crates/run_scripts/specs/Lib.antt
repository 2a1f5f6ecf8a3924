pub mod Scripted
pub mod Deadlines
pub mod Steps
pub mod ScriptedLaws
pub mod Turns
