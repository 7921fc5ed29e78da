pub mod Hash
pub mod Letters
pub mod Groups
pub mod Units
pub mod Turns
