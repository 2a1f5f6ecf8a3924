pub mod Site
pub mod Program
pub mod Lives
pub mod Exchange
pub mod Texts
pub mod Spoiled
