pub mod Keys
pub mod Parts
pub mod Within
pub mod IdleSockets
