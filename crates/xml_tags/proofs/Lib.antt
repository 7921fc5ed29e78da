pub mod ByteKinds
pub mod TagEnds
pub mod Value
pub mod Skips
pub mod Bounds
