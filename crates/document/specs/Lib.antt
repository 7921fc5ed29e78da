pub mod Elements
pub mod Steps
pub mod Tags
pub mod Constructs
pub mod Tested
pub mod Documents
pub mod Following
