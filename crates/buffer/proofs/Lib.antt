pub mod Chain
pub mod Room
pub mod Copying
pub mod Lent
