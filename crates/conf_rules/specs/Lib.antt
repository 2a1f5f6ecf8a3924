pub mod Directives
pub mod Values
pub mod Words
pub mod Effects
