pub mod Natives
pub mod Printing
pub mod Operations
pub mod Walks
pub mod Answers
pub mod OwnText
