pub mod Signs
pub mod Geometry
pub mod Tallies
pub mod Skips
pub mod Tokens
pub mod Rings
