pub mod Scans
pub mod Counts
pub mod HeadEnds
pub mod Answers
pub mod Numbers
