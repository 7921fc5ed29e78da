pub mod Search
pub mod Sweeping
pub mod Outcomes
pub mod Listing
pub mod ListedRoom
pub mod Receipt2
pub mod RunningList
