-- Who reads the contract of `parse` needs States, Next, Kinds, Nesting, Reads, ReadsNames, ReadsStatements and Standing; the others are what the
-- functions of the two crates promise each other.
pub mod States
pub mod Nesting
pub mod Next
pub mod Kinds
pub mod Reads
pub mod ReadsNames
pub mod ReadsStatements
pub mod Functions
pub mod Nodes
pub mod StatementNodes
pub mod Fits
pub mod Readers
pub mod Refusals
pub mod StatementRefusals
pub mod Standing
pub mod Frames
