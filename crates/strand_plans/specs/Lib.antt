pub mod Questions
pub mod Ledgers
pub mod Moves
pub mod Plans
pub mod Turns
pub mod Conditions
pub mod Tidiness
pub mod Sleeper
