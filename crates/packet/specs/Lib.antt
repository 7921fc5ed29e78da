pub mod BigEndian
pub mod Packet
pub mod Samples
