pub mod Cursor
pub mod Writing
