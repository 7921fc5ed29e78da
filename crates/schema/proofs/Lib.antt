pub mod Table
pub mod Naming
pub mod Hash
pub mod Alerts
pub mod Matching
pub mod Left
pub mod States
