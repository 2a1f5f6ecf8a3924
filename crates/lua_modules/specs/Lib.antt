pub mod Texts
pub mod Sets
pub mod Files
pub mod TextsOfFiles
pub mod Finding
pub mod Reading
