pub mod Keys
pub mod KeyLaws
pub mod Items
pub mod Dictionary
pub mod Ranges
pub mod Pool
pub mod Timers
pub mod Laws
