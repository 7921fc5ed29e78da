pub mod Lines
pub mod PartLine
