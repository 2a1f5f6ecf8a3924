mod Entries
mod Walks
mod Served
mod Routed
