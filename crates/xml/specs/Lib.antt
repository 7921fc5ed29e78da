pub mod Bytes
pub mod Searches
pub mod Comments
pub mod Texts
pub mod Opening
