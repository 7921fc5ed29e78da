pub mod Replies
pub mod Packets
pub mod Sentences
pub mod Sheets
pub mod Demand
pub mod Version
