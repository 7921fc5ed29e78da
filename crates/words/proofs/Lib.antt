pub mod Steps
pub mod Cases
pub mod Value
pub mod ReadNumber
pub mod ReadDuration
pub mod Lengths
