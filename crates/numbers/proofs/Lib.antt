pub mod Tests
pub mod Flags
pub mod BackAndForth
pub mod OneForm
