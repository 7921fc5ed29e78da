pub mod Classes
pub mod Sequences
pub mod Tables
