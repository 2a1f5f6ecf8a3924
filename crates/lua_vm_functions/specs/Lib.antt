pub mod Callees
pub mod CallEnds
pub mod CallFrames
