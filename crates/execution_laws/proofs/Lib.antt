pub mod OneEvent
pub mod OneAction
pub mod Walks
pub mod DropPoints
pub mod OneHistory
pub mod Replays
pub mod Decided
pub mod SmallExecutions
pub mod Sleepers
pub mod Askers
pub mod Alone
mod Drops
mod Given
pub mod OwnSteps
pub mod Worlds
mod StrandExecutions
mod Taken
