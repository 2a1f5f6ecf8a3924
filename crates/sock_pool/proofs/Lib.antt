pub mod Numbers
pub mod Socks
pub mod Entries
pub mod Armed
pub mod Due
pub mod Pooled
pub mod Put
pub mod Crowded
