pub mod Gives
pub mod Calls
pub mod Bodies
pub mod Branches
pub mod Runs
pub mod Entries
pub mod Joining
pub mod Counts
