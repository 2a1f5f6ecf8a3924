pub mod LeftLemmas
pub mod FrameForms
pub mod StepsRise
pub mod QuietWorks
pub mod QuietTables
pub mod QuietItems
pub mod FramesRise
