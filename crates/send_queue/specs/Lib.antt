pub mod Records
pub mod Queues
pub mod Layout
