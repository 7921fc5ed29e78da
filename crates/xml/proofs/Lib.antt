pub mod ByteKinds
pub mod Searches
pub mod Contents
pub mod Declaration
pub mod Bounds
