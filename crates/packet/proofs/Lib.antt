pub mod Numbers
pub mod Signs
pub mod Parts
pub mod Acceptance
pub mod Widths
pub mod Sides
