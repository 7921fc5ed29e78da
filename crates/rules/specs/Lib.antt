pub mod Faults
pub mod Codes
pub mod Texts
pub mod Samples
