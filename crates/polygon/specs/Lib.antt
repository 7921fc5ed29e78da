pub mod Polygon
pub mod Edges
pub mod Skips
pub mod Next
pub mod Ring
pub mod Samples
