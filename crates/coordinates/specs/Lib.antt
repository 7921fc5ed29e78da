pub mod Run
pub mod Decimal
pub mod Place
pub mod Answers
