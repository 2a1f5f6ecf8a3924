-- What is said of heaps of threads of a machine, of sites and of handlers.
pub mod Threads
pub mod Sites
pub mod Handlers
