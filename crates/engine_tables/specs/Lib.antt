pub mod Seats
pub mod Agenda
pub mod Sockets
pub mod Numbers
pub mod Kept
pub mod Numbered
pub mod Places
pub mod Held
