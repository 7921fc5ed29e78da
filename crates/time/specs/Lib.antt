pub mod Calendar
pub mod Digits
pub mod Time
pub mod Samples
pub mod Limits
pub mod DayEnd
pub mod Range
pub mod Tables
