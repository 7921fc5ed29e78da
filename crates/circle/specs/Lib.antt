pub mod Cosine
pub mod Circle
pub mod DateLine
pub mod Samples
