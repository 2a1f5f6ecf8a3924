pub mod Dashes
