pub mod SameWorks
pub mod SameTrees
pub mod SamePositions
pub mod SameCalls
pub mod SameNodes
pub mod SameJoined
pub mod SameNames
mod Adding
mod Starting
pub mod Apart
pub mod Progress
