pub mod Programs
pub mod Scripted
pub mod Lines
pub mod Turns
pub mod ConditionLaws
