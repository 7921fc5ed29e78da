pub mod Rules
pub mod DateLine
pub mod Near
pub mod Texts
