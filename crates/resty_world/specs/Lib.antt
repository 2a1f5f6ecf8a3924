pub mod Ids
pub mod IdLaws
pub mod Book
pub mod Calls
pub mod Contract
pub mod Given
pub mod KeptHistory
