pub mod Standing
pub mod Spans
pub mod Coded
pub mod Drawn
pub mod Says
pub mod Shapeless
pub mod Numbers
pub mod Ranges
