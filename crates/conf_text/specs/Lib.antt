pub mod Layout
pub mod Fronts
pub mod Tokens
pub mod Endings
pub mod Items
