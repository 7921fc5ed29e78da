pub mod Magnitude
pub mod Order
pub mod Bits
pub mod Reads
