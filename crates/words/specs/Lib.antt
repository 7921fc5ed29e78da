pub mod Words
pub mod Duration
pub mod Reading
pub mod Samples
