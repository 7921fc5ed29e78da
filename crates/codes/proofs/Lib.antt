pub mod Search
pub mod Numbers
pub mod Each
