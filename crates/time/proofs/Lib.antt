pub mod Range
mod Days
mod Forms
mod Bounds
mod Seconds
mod DayEnd
pub mod Answer
