pub mod Answers
pub mod Rooms
pub mod Ascii
pub mod Bytes
pub mod Tokens
pub mod Logic
pub mod Parts
pub mod Search
