pub mod Splitting
pub mod Names
pub mod FieldLists
pub mod Elements
pub mod Hosts
pub mod Lent
