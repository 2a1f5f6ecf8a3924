pub mod Values
pub mod Zones
pub mod Kept
pub mod Calls
