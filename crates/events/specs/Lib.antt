pub mod Table
pub mod Running
pub mod Steps
pub mod Demand2
pub mod RunningList
pub mod Samples
