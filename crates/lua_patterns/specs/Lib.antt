pub mod Classes
pub mod Items
pub mod Captures
pub mod Trails
pub mod Searches
pub mod Matching
pub mod Balance
