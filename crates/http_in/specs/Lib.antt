pub mod Ends
pub mod Lines
pub mod Framing
pub mod Hosts
pub mod Options
pub mod Heads
pub mod Standing
pub mod Scanning
