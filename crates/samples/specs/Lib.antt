pub mod Starred
pub mod Documents
pub mod Parts
