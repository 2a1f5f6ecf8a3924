pub mod Making
pub mod Calls
pub mod Loading
pub mod RunTables
pub mod Starting
pub mod Started
pub mod Laws
pub mod Standing
