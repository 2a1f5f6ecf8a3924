pub mod Numbers
pub mod Indexed
pub mod Soonest
pub mod Threads
