pub mod Sheet
pub mod Sentence
pub mod Reading
pub mod Answers
pub mod Demand
pub mod Samples
