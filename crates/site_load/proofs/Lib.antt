pub mod Joins
pub mod Begun
pub mod Loads
pub mod OneSite
